-- Monomials and places: their orders, degrees, products, divisors and numbers.
pub mod Comparisons
pub mod Orders
pub mod MonomialEquality
pub mod Products
pub mod Weights
pub mod Places
pub mod Divisors
pub mod OrderInWords
pub mod Numbers
