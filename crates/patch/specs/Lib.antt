pub mod Patches
pub mod Steps
