pub mod Constants
pub mod Pivots
pub mod Steps
pub mod Numbers
pub mod Spaces
