-- The worked examples, and the lists that are refused.
pub mod GraphBases
pub mod FreeRelations
pub mod QuadricsGraph
pub mod QuadricsParts
pub mod RefusedLists
pub mod QuadricsSteps
pub mod KoszulSteps
pub mod KoszulHomology
pub mod KoszulCokernel
pub mod SizesAtBounds
