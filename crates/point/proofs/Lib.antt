pub mod PatchLaws
pub mod PointLaws
