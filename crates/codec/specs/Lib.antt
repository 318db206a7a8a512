pub mod Assembled
pub mod Decoded
pub mod Encoded
pub mod Exact
pub mod Tables
