pub mod Sizes
pub mod Algebra
