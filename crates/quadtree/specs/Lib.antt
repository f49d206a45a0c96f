pub mod Subtree
pub mod End
pub mod Judged
