-- Exactness modulo variables: what one more variable leaves of it, of three lists of rows and of all steps; and why the
-- steps past the variables have no rows.
pub mod Step
pub mod Chains
pub mod Vanishing
pub mod Bound
