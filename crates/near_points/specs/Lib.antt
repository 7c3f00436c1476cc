pub mod Limits
pub mod AxisOrder
pub mod AxisOffsets
pub mod Lines
pub mod Trimmed
pub mod Rays
pub mod Ready
