pub mod Functors
pub mod FunctorLaws
pub mod TensorPlans
pub mod TensorLaws
