pub mod Grids
pub mod Cases
pub mod OfCalls
