pub mod Cuts
pub mod Squares
