-- Exact maps: the span of rows and of products, why exact maps give 0, and lifts of matrices.
pub mod Spans
pub mod ZeroProducts
pub mod Lifts
