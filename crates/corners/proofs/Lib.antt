pub mod CornerLaws
pub mod FileText
pub mod Theorems
