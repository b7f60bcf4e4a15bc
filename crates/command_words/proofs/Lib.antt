pub mod FormLemmas
pub mod Splits
pub mod Comparing
pub mod Ranges
pub mod OneForm
