mod Needed
pub mod ZeroIsNew
pub mod Readers
pub mod OnceInNumbers
mod OnceInNumbersCases
