pub mod FieldLaws
pub mod PositionLaws
pub mod NumberLaws
pub mod PutLaws
pub mod FiveBytes
pub mod Written
pub mod TwoBytes
