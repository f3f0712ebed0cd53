pub mod Calls
pub mod Admitted
pub mod Entries
