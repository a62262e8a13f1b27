-- Horseshoes: matrices of lifts, exactness at the first place and at the others.
pub mod Lifts
pub mod Starts
pub mod Exactness
pub mod Sides
