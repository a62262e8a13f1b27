-- Rows of the bidual bicomplex: transposed columns, which are exact.
pub mod TransposedColumns
