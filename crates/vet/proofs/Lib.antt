pub mod Bounds
pub mod Tests
pub mod Turns
pub mod Rings
pub mod Entering
pub mod Starting
