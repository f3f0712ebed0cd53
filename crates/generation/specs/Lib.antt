pub mod Slots
pub mod Rules
pub mod Words
pub mod Reach
