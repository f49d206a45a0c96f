pub mod Counts
pub mod Files
pub mod Saved
pub mod Notes
