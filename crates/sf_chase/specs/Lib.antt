pub mod Columns
pub mod Filtrations
pub mod ColumnPages
pub mod Staircases
