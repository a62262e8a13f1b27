-- How many leads there are: elimination by the places that stand for coefficients, and what full degrees give.
pub mod Elimination
pub mod Filters
pub mod Coefficients
pub mod GraphLeads
pub mod FullDegrees
pub mod CountedBases
