-- The residue field of a ring in three variables.
pub mod Graphs
pub mod Steps
