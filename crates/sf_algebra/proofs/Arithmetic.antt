-- Residues, primes and inverses.
pub mod Residues
pub mod Primes
pub mod Inverses
