-- Vectors as sums over the places of a list: what an addition of entries means, what is read off, which terms entries
-- stand for, and the steps of the program's loops.
pub mod Additions
pub mod Residues
pub mod ReadOut
pub mod PlacedEntries
pub mod Coefficients
pub mod Steps
pub mod Walks
