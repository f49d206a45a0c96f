pub mod WindowLaws
pub mod TextLaws
pub mod GridLaws
