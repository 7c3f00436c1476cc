pub mod Sizes
pub mod Moments
