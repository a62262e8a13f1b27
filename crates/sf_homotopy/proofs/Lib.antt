pub mod Exactness
pub mod Contracting
pub mod Triangles
