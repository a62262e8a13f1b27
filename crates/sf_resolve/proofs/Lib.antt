pub mod StepAnswers
pub mod Ends
pub mod StepMeets
pub mod ShelfSteps
pub mod StepDegrees
