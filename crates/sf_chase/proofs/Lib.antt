pub mod Images
pub mod Links
pub mod Pages
pub mod Filtrations
pub mod Columns
pub mod Staircases
