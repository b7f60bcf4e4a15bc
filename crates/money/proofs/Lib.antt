pub mod Digits
pub mod Numerals
pub mod Counts
pub mod Quantities
pub mod Prices
pub mod Costs
