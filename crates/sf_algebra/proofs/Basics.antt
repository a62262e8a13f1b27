-- Lists, filters and descending lists; the first item and the rest as a pattern takes them; the printed factors of
-- a monomial.
pub mod Lists
pub mod Filters
pub mod Descending
pub mod Drops
pub mod Slices
pub mod Factors
