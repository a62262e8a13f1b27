pub mod Exactness
pub mod HilbertLaws
pub mod ThreeVariables
