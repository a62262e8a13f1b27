-- Groups in columns as filtered groups, and their pages in the coordinates of one column.
pub mod Filtered
pub mod Pages
pub mod Differentials
pub mod NextPages
pub mod Numbers
