pub mod Limits
pub mod Edits
pub mod Queries
pub mod Words
pub mod Statements
pub mod Script
pub mod Sound
pub mod Counted
