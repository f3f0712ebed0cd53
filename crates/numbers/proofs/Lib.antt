pub mod Arithmetic
pub mod Needed
pub mod Placing
pub mod Readers
pub mod PlaceUnits
