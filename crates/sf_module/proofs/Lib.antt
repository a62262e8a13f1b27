pub mod HomologyAnswers
pub mod ModuleAnswers
pub mod HomologySteps
pub mod ModuleSteps
