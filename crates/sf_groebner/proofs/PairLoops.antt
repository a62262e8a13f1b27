-- What loops over pairs keep.
pub mod GrowingRows
pub mod PendingPairs
pub mod PendingDegrees
pub mod HandledPairs
pub mod HomogeneousPairs
pub mod NeededLeads
pub mod GrowingBases
pub mod MonicRests
pub mod GrowthSteps
