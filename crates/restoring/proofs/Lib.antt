pub mod Acting
pub mod Registers
pub mod Shares
pub mod Steps
pub mod Generations
pub mod Dumps
