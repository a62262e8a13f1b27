-- What there is at most once: reduced bases, rests, lifts, minimal generators, coordinates, presentations,
-- homology.
pub mod Differences
pub mod Subtractions
pub mod Apart
pub mod Sorted
pub mod UniqueBases
pub mod Remainders
pub mod Lifts
pub mod MinimalGenerators
pub mod KeptGenerators
pub mod GeneratingBases
pub mod ReducedCoordinates
pub mod Presentations
pub mod PresentedModules
pub mod Homology
