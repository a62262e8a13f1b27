-- Vectors over a free module whose generators stand in columns, as groups in columns.
pub mod Splits
pub mod ColumnVectors
pub mod ColumnParts
pub mod ColumnMaps
