-- Items of lists, divisors and the order of places, what falls for ever, and what has at most one proof or is
-- decided.
pub mod Items
pub mod PlaceDivisors
pub mod Accessible
pub mod Dickson
pub mod PlaceOrder
pub mod Propositions
pub mod LiftPropositions
pub mod Decisions
