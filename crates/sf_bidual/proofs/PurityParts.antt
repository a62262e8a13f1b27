-- The purity filtration: the augmentation presents homology by the relations of the module, so its parts are those of
-- homology.
pub mod Presented
pub mod Parts
