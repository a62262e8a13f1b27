pub mod GraphRests
pub mod RestsOfBases
pub mod Entries
pub mod Openings
pub mod Limits
