pub mod Places
pub mod Picked
pub mod Products
pub mod Split
pub mod Root
pub mod Winning
pub mod Singles
