-- Laws that the proofs of several functions cite, and what is proved of the specification.
pub mod Reading
pub mod Writing
pub mod ReadBack
