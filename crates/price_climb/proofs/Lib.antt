pub mod PriceLists
pub mod Bounds
pub mod Moves
pub mod Columns
pub mod Fitting
pub mod Untouched
pub mod Steps
