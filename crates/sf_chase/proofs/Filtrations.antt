-- The filtration of homology and the last page, by whole elements and in coordinates.
pub mod LeadingTerms
pub mod ColumnParts
pub mod LastPages
