pub mod Theorem
pub mod LinkedDemandThree
pub mod Slips
