pub mod Flows
pub mod Halves
pub mod Moves
pub mod Openings
pub mod Thoughts
pub mod Trims
