pub mod BodyLaws
pub mod FileLaws
