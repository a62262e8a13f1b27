-- Matrices: equality, identities, products, transposes, stacks, negatives, parts and sizes.
pub mod MatrixRows
pub mod Sizes
pub mod Equality
pub mod Identities
pub mod Columns
pub mod Transposes
pub mod Stacks
pub mod NegatedMatrices
pub mod MatrixProducts
pub mod ProductLaws
pub mod TransposedProducts
pub mod Ranges
pub mod PartTerms
pub mod Parts
pub mod ProductParts
