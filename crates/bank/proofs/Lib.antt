pub mod AllOpen
pub mod Bounds
pub mod Calls
pub mod Groups
pub mod Overlays
pub mod Rounds
pub mod Tabulated
