pub mod Replaced
pub mod Versions
pub mod Parts
pub mod ReadBack
pub mod Steps
pub mod Between
pub mod Seen
pub mod Sent
