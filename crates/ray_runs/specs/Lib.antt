pub mod Sizes
pub mod Between
pub mod Missed
pub mod Open
pub mod Searched
