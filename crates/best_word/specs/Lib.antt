pub mod Seen
pub mod WordAccount
