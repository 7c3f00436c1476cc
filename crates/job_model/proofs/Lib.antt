pub mod Lists
pub mod Safe
pub mod Sums
pub mod Holders
pub mod Clear
