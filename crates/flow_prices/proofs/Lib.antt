pub mod Narrowing
pub mod Pricing
