pub mod Narrow
pub mod Prices
pub mod Answers
