pub mod Computed
pub mod BenchLaws
pub mod Bench
pub mod CostCases
pub mod SlopeCases
pub mod SlipCases
pub mod Unrefined
pub mod LinkedBench
