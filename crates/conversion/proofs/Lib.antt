pub mod Grids
pub mod Files
pub mod Trees
pub mod Cases
pub mod Outcomes
pub mod OfCalls
pub mod LinkedCalls
