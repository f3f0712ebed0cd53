pub mod Words
pub mod Rules
pub mod Heading
pub mod Seen
