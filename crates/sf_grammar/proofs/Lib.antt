pub mod Columns
pub mod Cutting
pub mod Parts
pub mod Languages
pub mod WordReaches
pub mod Forms
pub mod FormValues
pub mod Greatest
