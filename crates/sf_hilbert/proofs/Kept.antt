-- The terms of rows whose monomials pass a test: what sums, multiples and combinations keep; rows that a monomial
-- divides; and the tests that ask that some variables don't divide.
pub mod Terms
pub mod Divided
pub mod Variables
