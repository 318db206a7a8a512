pub mod Bits
pub mod Digits
pub mod Fields
pub mod Widths
