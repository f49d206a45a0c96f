pub mod Lists
pub mod Extremes
pub mod Run
pub mod Cases
