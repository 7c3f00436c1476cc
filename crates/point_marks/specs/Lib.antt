pub mod Marks
pub mod Questions
