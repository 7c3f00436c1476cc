pub mod Cutters
pub mod Kinds
pub mod Parameters
pub mod Ranges
pub mod Records
pub mod Values
pub mod Words
