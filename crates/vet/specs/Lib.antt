pub mod Vetted
pub mod Entries
pub mod Starts
