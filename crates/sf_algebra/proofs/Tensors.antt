-- Kronecker products: of terms, of vectors, of matrices, and their laws.
pub mod KroneckerTerms
pub mod KroneckerVectors
pub mod Kronecker
pub mod KroneckerProducts
pub mod KroneckerUnits
pub mod KroneckerIdentities
pub mod KroneckerEntries
pub mod KroneckerTransposes
pub mod KroneckerFactors
pub mod KroneckerSums
