-- Bicomplexes of free modules with exact rows, but for the highest column, where a complex is set: their total complex has
-- the homology of that complex.
pub mod FreeTotals
pub mod Flats
pub mod Augmentations
pub mod Homology
