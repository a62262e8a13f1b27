-- What keeps to the variables: operations on monomials, rows and matrices.
pub mod Monomials
pub mod Rows
pub mod Matrices
