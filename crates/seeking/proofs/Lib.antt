pub mod Unswept
pub mod Trying
pub mod Sought
