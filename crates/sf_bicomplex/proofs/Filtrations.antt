-- The filtration of homology by columns, said of vectors, is that of groups in columns in each degree.
pub mod TotalBoundaries
pub mod PartVectors
pub mod Combinations
pub mod PartLaws
pub mod ColumnChanges
pub mod HomologyParts
