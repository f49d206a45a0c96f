pub mod AnswerLaws
pub mod CodeLaws
