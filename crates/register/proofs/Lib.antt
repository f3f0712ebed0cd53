pub mod HeadWords
pub mod InRings
pub mod Sweeps
pub mod Verdicts
pub mod Foreseen
pub mod Forgets
