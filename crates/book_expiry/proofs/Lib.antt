pub mod Lists
pub mod Walked
pub mod Ended
