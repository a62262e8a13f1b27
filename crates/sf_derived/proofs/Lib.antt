pub mod PlaceSteps
pub mod PlaceMaps
pub mod StepSizes
pub mod Rooms
pub mod ResolvedMaps
pub mod DerivedAnswers
pub mod ShelvedMaps
pub mod DerivedSteps
