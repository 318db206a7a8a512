pub mod Bytes
pub mod Steps
pub mod Store
pub mod Trials
