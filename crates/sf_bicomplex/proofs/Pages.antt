-- Pages, said of vectors, are pages of groups in columns in each degree.
pub mod NearVectors
pub mod PageVectors
pub mod PageLaws
pub mod FirstPages
pub mod LowestRows
