pub mod Rules
pub mod Sums
pub mod FrontRules
pub mod PlaceRules
pub mod ClassRules
