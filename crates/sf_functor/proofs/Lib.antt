pub mod Rooms
pub mod Pairs
pub mod FunctorMaps
pub mod FunctorComplexes
pub mod TensorAnswers
pub mod TensorVectors
pub mod TensorSteps
