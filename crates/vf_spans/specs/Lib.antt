pub mod Members
pub mod Edges
pub mod Merge
pub mod Words
