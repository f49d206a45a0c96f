pub mod Forests
pub mod LevelLaws
pub mod WalkLaws
