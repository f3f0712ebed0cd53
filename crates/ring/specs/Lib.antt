pub mod Ring
pub mod Sweep
