-- Matrices row by row: sums, and zeros.
pub mod RowsByRows
pub mod EntrySums
pub mod SumGroups
pub mod SumProducts
pub mod SumTransposes
