-- The highest column of the purity filtration.
pub mod Onto
pub mod HighestColumn
