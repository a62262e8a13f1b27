pub mod Variables
pub mod Columns
pub mod MonomialLaws
pub mod RowLaws
pub mod MatrixLaws
pub mod BasisLaws
pub mod LiftLaws
pub mod PresentationLaws
