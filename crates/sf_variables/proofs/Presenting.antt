-- Bases, generators, presentations, resolutions, lifts and rests of matrices over n variables.
pub mod MatrixBases
pub mod Presentations
pub mod Lifts
pub mod Coefficients
