pub mod Words
pub mod Rules
pub mod Reasons
