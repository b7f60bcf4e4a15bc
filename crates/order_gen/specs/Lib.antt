pub mod Draws
pub mod GenParts
