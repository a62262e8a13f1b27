-- Columns of a Cartan-Eilenberg resolution: canonical resolutions, then one column, then all of them.
pub mod Sums
pub mod Resolutions
pub mod OneColumn
pub mod Arriving
pub mod Laws
