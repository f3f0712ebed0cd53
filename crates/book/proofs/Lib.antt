pub mod PlaceTurns
pub mod ClassWords
pub mod ClassLists
pub mod Finding
pub mod Spots
pub mod Entering
pub mod Returning
pub mod Keeping
