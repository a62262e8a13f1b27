pub mod Exactness
pub mod Homotopies
pub mod HomotopyLaws
pub mod BlockTriangles
pub mod TriangleLaws
