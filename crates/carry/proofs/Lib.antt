pub mod CarryLaws
pub mod ChildLaws
