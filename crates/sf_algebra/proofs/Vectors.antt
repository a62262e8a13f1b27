-- Vectors, the rows of matrices, and what is homogeneous.
pub mod RowSums
pub mod Entries
pub mod Positions
pub mod Rows
pub mod RowParts
pub mod UnitRows
pub mod StackedRows
pub mod Degrees
pub mod DegreeParts
pub mod HomogeneousVectors
pub mod VectorProps
pub mod VectorGroups
pub mod EntryTotals
pub mod EntryProducts
