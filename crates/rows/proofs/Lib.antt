pub mod Spans
pub mod MaskLaws
pub mod NoneLaws
pub mod RowLaws
