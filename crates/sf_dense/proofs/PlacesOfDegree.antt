-- The list of all places of a degree: the multiples of a place by monomials, by their first and last variables;
-- monomials without the last variable and with it; that the list has all multiples, the greatest first; and one generator
-- after another.
pub mod Multiples
pub mod LastVariables
pub mod AllMultiples
pub mod Generators
