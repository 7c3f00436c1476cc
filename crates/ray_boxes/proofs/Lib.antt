pub mod Raised
pub mod Mixed
pub mod Excluded
pub mod Lines
