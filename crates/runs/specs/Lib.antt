pub mod Words
pub mod Chunks
pub mod Form
pub mod Combine
pub mod Turns
pub mod Over
