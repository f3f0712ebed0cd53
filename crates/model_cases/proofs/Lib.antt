pub mod EqualPartCases
pub mod RoundTripCases
pub mod SameDumpCases
pub mod SteadyCases
pub mod PartlyCases
pub mod ViewCases
pub mod ReasonCases
pub mod SmallestCases
