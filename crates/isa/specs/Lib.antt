pub mod Calculated
pub mod Laws
pub mod Marked
pub mod Operations
pub mod Sets
