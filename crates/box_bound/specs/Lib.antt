pub mod Relaxed
pub mod Bounded
pub mod BoxNet
pub mod NodeRow
