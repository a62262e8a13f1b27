-- Matrices of two by two blocks.
pub mod ZeroParts
pub mod Blocks
pub mod BlockProducts
pub mod Triangles
