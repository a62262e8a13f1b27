-- Elements of the graph that are found degree by degree: what the sums and lists of one degree stand for, what each step
-- keeps, what tests and counts decide of the rows, and that the rows are the reduced basis once all degrees are covered.
pub mod GraphSums
pub mod GraphLists
pub mod Kept
pub mod Found
pub mod ApartRows
pub mod FinishedDegrees
pub mod Flags
pub mod NewRows
pub mod Positions
pub mod ReducedTails
pub mod SortedRows
pub mod Taken
pub mod Exponents
pub mod Degrees
