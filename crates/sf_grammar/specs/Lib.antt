pub mod Words
pub mod Reaches
pub mod Parts
pub mod WordReaches
pub mod Forms
pub mod FormValues
pub mod ReachLaws
