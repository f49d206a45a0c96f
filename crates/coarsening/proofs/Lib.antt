pub mod SixteenLaws
pub mod FindLaws
pub mod BackLaws
pub mod RowLaws
