-- Kronecker products of sums, of zeros and of matrices side by side.
pub mod PairedFactors
pub mod FactorSums
pub mod Crossings
