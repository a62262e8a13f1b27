pub mod TermSums
pub mod Buckets
pub mod LeadIndex
