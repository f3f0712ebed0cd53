pub mod Positions
pub mod Chunks
pub mod Finding
pub mod Striking
pub mod Sweeping
pub mod Foreseen
