pub mod Call
pub mod Command
pub mod Seen
pub mod Words
