pub mod Findings
pub mod Asked
pub mod Sets
pub mod Steps
pub mod WordSets
