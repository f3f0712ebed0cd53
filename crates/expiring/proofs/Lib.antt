pub mod LeastOf
pub mod Passing
