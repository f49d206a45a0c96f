pub mod BuildLaws
pub mod InsertLaws
pub mod PaintLaws
pub mod RegionLaws
