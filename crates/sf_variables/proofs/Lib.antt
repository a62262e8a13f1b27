pub mod Keeping
pub mod OuterParts
pub mod Presenting
