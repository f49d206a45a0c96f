pub mod FloorLaws
pub mod CostLaws
