-- Groups with operators, where no ring is seen: subgroups, congruences, quotients, correspondences, coordinates,
-- homology.
pub mod Groups
pub mod GroupMaps
pub mod Subgroups
pub mod Congruences
pub mod Quotients
pub mod Correspondences
pub mod Coordinates
pub mod GroupHomology
