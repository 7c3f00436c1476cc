pub mod Marks
pub mod Changes
pub mod WrittenRays
pub mod Keeping
pub mod Ranges
pub mod Runs
pub mod Settling
pub mod SettledRays
