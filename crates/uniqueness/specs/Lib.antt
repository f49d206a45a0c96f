pub mod OneSurface
pub mod OfCalls
pub mod Pairs
