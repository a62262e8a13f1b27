-- What stands below the two highest columns: where the map of the boundaries extends to the cycles.
pub mod Cancelling
pub mod FreeCycles
pub mod Restrictions
pub mod Factors
pub mod TwoColumns
pub mod Factored
