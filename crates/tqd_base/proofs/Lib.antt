mod Counting
pub mod Worlds
pub mod Taken
pub mod Whole
pub mod KeptLemmas
pub mod StoreLemmas
pub mod DeskLemmas
pub mod RealLemmas
pub mod Written
