-- The worked examples.
pub mod FreeSpots
pub mod TailLaws
pub mod TailPages
pub mod ResolvedSpots
pub mod ResolvedExample
pub mod TensorSpots
pub mod PairRelations
pub mod TensorPages
pub mod TensorNext
pub mod TensorTotal
pub mod TensorParts
pub mod RefusedLists
