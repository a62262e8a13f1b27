pub mod Room
pub mod Places
pub mod DerivedPlans
pub mod DerivedLaws
pub mod ShelvedMaps
