pub mod Totals
pub mod Gap
pub mod Chosen
