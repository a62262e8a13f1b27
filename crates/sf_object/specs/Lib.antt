pub mod Faults
pub mod FaultLaws
pub mod Complexes
pub mod ComplexLaws
pub mod Kept
pub mod ResolutionPlans
pub mod Shelves
