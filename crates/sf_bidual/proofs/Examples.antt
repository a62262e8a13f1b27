-- The worked examples.
pub mod OneVariable
pub mod TwoVariables
pub mod EmbeddedPoint
