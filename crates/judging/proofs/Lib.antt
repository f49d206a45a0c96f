pub mod JudgeLaws
pub mod CountsLaws
pub mod NoteLaws
