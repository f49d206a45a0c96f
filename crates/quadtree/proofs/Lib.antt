pub mod SubtreeLaws
pub mod EqualLeaves
pub mod EndLaws
pub mod WalkLaws
