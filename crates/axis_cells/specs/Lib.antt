pub mod Exclusion
pub mod Marked
