-- Matrices side by side.
pub mod PairEntries
pub mod Beside
pub mod BesideLaws
pub mod BesideProducts
pub mod BesideTransposes
