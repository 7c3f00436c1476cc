pub mod Rays
pub mod Kept
pub mod Rows
