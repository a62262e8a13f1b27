pub mod Kept
pub mod Minimality
pub mod Exactness
pub mod WithoutRows
pub mod ThreeVariables
