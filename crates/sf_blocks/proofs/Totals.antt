-- Total differentials.
pub mod TotalMatrices
pub mod TotalProducts
pub mod TotalSquares
pub mod SquaresModulo
