-- Block triangular matrices with exact blocks on the diagonal: two blocks, and any number.
pub mod PairLifts
pub mod TriangleLifts
pub mod ExactTriangles
pub mod BlockTriangles
