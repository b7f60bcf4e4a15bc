pub mod PriceList
pub mod Climbing
pub mod Columns
pub mod Table
pub mod Raises
