pub mod OfTable
pub mod Patches
pub mod Places
