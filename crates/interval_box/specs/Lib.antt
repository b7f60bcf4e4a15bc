pub mod Ranges
pub mod Halves
pub mod Size
pub mod Winners
pub mod Singles
