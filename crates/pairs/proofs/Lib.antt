pub mod PairWords
pub mod PairLists
pub mod Counting
