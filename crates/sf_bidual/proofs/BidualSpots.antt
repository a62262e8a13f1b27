-- The spots of the bidual bicomplex: maps of free modules, and its laws.
pub mod FreeMaps
pub mod Places
pub mod DualComplexes
pub mod Bicomplex
pub mod Augmentation
pub mod Homology
