pub mod Counting
pub mod Sorting
pub mod Merging
pub mod Telling
