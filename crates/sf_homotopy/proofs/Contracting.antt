-- Homotopies: their transposes, why they make maps exact, why exact complexes have them, and so the exactness of
-- transposes; the identity as the plainest example.
pub mod Sums
pub mod Transposes
pub mod Splitting
pub mod Contractions
pub mod ExactTransposes
pub mod Identities
