pub mod Entries
pub mod MonicEntries
pub mod Walks
pub mod PlaceLists
