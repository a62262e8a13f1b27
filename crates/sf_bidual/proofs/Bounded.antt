-- Bounds over n variables: resolutions without an end have no rows past n, and so purity filtrations exist.
pub mod Steps
pub mod Resolutions
pub mod Modules
