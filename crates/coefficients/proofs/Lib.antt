pub mod FaultLaws
pub mod Parts
pub mod Sizes
