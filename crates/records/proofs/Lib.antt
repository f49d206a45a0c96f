pub mod Cases
pub mod Places
pub mod Extremes
pub mod Run
pub mod SomeRun
