pub mod Lines
pub mod Head
pub mod Said
pub mod Graft
pub mod Reading
