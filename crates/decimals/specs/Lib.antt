-- What the contracts of this library cite, and what is proved of it.
pub mod Texts
pub mod ReadBack
