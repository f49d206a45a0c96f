pub mod ActiveLaws
pub mod BitLaws
pub mod CountLaws
pub mod NearLaws
pub mod RegionLaws
pub mod StepLaws
pub mod WindowLaws
