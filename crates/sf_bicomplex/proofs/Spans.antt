-- Modules that are spans, and what is described by correspondences of them.
pub mod SpannedModules
pub mod PageSpans
pub mod ReducedCoordinates
pub mod ClassMaps
pub mod ClassKernels
pub mod Described
pub mod DifferentialMaps
pub mod PageExistence
pub mod PartMaps
pub mod PartExistence
pub mod NextMaps
pub mod NextExistence
pub mod IsomorphicClasses
pub mod NoClasses
