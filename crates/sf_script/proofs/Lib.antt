pub mod FoundNames
pub mod KindReaches
pub mod Lines
pub mod NamedMaps
pub mod PutNames
pub mod Tables
