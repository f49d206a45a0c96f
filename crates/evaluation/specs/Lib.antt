pub mod Evaluated
pub mod Weights
