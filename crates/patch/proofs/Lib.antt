pub mod Size
pub mod Four
pub mod Subdivision
pub mod FourByFour
pub mod Lines
