pub mod Bench
pub mod Cases
pub mod CostCases
pub mod SlopeCases
pub mod SlipCases
pub mod LinkedBench
