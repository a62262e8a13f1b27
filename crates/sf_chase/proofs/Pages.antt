-- Pages of filtered groups by whole elements: subgroups, differentials, the next page and the last one.
pub mod PageGroups
pub mod Differentials
pub mod NextPages
