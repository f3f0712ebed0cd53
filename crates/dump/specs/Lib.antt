pub mod Bytes
pub mod Walk
pub mod Parts
pub mod Outputs
