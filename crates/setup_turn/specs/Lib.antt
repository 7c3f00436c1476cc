pub mod Turned
pub mod Places
pub mod Moved
pub mod Walk
