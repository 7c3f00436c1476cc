pub mod Vectors
pub mod Ranges
pub mod Sweeps
pub mod Reach
pub mod Flanks
