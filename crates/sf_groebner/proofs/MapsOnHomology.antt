-- Equality modulo a module, squares of maps, maps of complexes, identities.
pub mod EqualModulo
pub mod Squares
pub mod ChainMaps
pub mod IdentitySquares
