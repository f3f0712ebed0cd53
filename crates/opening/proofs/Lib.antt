pub mod Blank
pub mod Laid
pub mod Steps
