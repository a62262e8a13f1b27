-- Tensor products of complexes as bicomplexes.
pub mod Multiples
pub mod TensorLaws
pub mod Factors
pub mod Lists
pub mod SignedSpans
pub mod TensorPages
pub mod NearStacks
pub mod TorPages
pub mod Shifts
pub mod FreeExact
pub mod HigherRows
pub mod ExactLists
