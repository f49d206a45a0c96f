pub mod Marks
pub mod Mark
pub mod Near
pub mod Over
pub mod Counts
