pub mod Making
pub mod ResolutionLaws
