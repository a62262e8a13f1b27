pub mod HomologyPlans
pub mod ModulePlans
pub mod ModuleLaws
