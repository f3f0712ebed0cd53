pub mod InRun
pub mod AtRegister
pub mod Draws
pub mod Taking
pub mod Explains
