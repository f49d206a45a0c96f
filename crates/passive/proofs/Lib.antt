pub mod ClearLaws
pub mod RowLaws
pub mod SliceLaws
