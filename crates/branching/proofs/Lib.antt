pub mod Paid
pub mod LeastPrices
pub mod Gaps
pub mod Greatest
