pub mod EqualPartCases
pub mod RoundTripCases
