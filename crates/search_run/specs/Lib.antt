pub mod Opened
pub mod Stages
pub mod Thoughts
pub mod Trims
pub mod Branches
pub mod Minds
pub mod Steps
pub mod Working
