pub mod Slabs
pub mod Flagged
pub mod Rays
pub mod Touched
pub mod Stacked
pub mod Sizes
