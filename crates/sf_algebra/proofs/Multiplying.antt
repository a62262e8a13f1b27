-- Multiples, combinations and products of polynomials, at whatever terms stand.
pub mod Keys
pub mod Multiples
pub mod MultipleLaws
pub mod PrimeMultiples
pub mod Combinations
pub mod CombinationLaws
pub mod Associativity
pub mod Polynomials
pub mod Gathering
