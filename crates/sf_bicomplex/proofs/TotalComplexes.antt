-- The total complex of a bicomplex: its columns, and that its maps step down by one column at most.
pub mod TotalModules
pub mod TotalSpans
pub mod Diagonals
pub mod TotalSteps
pub mod TotalMaps
pub mod ImageColumns
pub mod Squares
pub mod TotalGroups
pub mod TotalLaws
