pub mod Exact
pub mod Faults
pub mod Words
