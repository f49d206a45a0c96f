pub mod FreshLaws
pub mod SetLaws
pub mod SignedLaws
