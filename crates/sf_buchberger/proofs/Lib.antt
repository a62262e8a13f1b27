pub mod FinishedRows
pub mod GraphUnits
pub mod Insertions
pub mod MoreParts
pub mod MoreTails
mod LeadRows
mod QueuedPairs
mod DoneTables
mod MonicMultiples
mod TakenPairs
mod LoopBounds
mod LoopSteps
mod Starts
mod InputMoves
mod PairMoves
mod Results
mod DegreeBases
