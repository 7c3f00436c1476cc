pub mod Clearance
pub mod SeenGouge
pub mod Tangents
pub mod UpperReading
pub mod Windows
