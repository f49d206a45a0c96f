pub mod FoldLaws
pub mod HeldLaws
