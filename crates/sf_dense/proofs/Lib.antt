pub mod DenseSums
pub mod PlacesOfDegree
