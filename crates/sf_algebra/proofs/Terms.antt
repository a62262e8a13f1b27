-- Lists of terms: totals, and sums as canonical lists.
pub mod Totals
pub mod DoubleTotals
pub mod SameTotals
pub mod Normal
pub mod Coefficients
pub mod Sums
pub mod GroupLaws
pub mod Negatives
pub mod Merge
pub mod Canonical
