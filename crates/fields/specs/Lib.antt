pub mod Positions
pub mod Put
