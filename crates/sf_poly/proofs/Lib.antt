pub mod Leads
pub mod PartProducts
