pub mod Whose
pub mod Placed
pub mod Chunks
pub mod Twice
pub mod Adding
pub mod Classes
