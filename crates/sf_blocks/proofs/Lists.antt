-- Lists of matrices side by side, and one above another.
pub mod ListBlocks
pub mod ListProducts
