pub mod LaneAccount
pub mod Seen
