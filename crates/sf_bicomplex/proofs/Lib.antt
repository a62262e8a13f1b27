pub mod Columns
pub mod TotalComplexes
pub mod Pages
pub mod Filtrations
pub mod Spans
pub mod Examples
pub mod Staircases
pub mod Tensors
