pub mod Polynomials
pub mod Bounds
pub mod Equality
