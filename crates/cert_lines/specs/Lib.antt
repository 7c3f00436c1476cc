pub mod Limits
pub mod Words
pub mod Lines
pub mod Certificates
pub mod Reading
pub mod Spelling
pub mod Law
