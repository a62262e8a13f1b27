-- A printed matrix reads back as itself: from the bytes of its text up to the rows that it means.
pub mod Joined
pub mod OneWord
pub mod Numbers
pub mod Factors
pub mod Terms
pub mod Rows
pub mod Exponents
pub mod Columns
pub mod Shapes
pub mod Matrices
pub mod Degrees
