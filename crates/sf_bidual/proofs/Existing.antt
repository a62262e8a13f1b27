-- Existence and uniqueness: canonical resolutions without an end, then Cartan-Eilenberg resolutions.
pub mod Steps
pub mod Resolutions
pub mod CartanEilenberg
pub mod Uniqueness
