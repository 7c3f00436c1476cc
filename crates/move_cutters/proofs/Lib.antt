pub mod Highs
pub mod Sizes
