pub mod LevelLaws
pub mod FileLaws
pub mod ReadLaws
