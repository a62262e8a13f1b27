-- Bicomplexes of free modules with resolved rows: the staircase, said of vectors.
pub mod FreeTotals
pub mod ExactRows
pub mod SetColumns
pub mod ResolvedLaws
pub mod SetHomology
