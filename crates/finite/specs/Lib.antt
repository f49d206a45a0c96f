pub mod Range
pub mod Bits
