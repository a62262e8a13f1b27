pub mod MatrixSums
pub mod SideBySide
pub mod TwoByTwo
pub mod Totals
pub mod Lists
pub mod Kroneckers
pub mod DirectSums
