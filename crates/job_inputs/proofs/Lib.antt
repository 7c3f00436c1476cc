pub mod Found
pub mod Allowed
pub mod Behind
pub mod Planes
pub mod Programs
pub mod Scripts
pub mod Twice
pub mod Stocked
