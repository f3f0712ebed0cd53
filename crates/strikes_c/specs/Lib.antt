pub mod Out
pub mod ZeroIsNew
pub mod Readers
pub mod OnceInNumbers
