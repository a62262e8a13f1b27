pub mod BucketSums
pub mod Greatest
pub mod Takings
pub mod Enterings
pub mod LeadIndexes
pub mod DivisionLoops
pub mod PairSums
