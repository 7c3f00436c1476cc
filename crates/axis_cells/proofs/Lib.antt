pub mod Fits
pub mod Comparisons
pub mod Bounds
pub mod SlabBySlab
pub mod Marks
pub mod Coefficients
