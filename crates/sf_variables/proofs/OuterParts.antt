-- The part of a vector at a product of the variables past n, and why modules and their bases keep to n variables.
pub mod Splitting
pub mod Vectors
pub mod Combinations
pub mod Bases
pub mod Modules
