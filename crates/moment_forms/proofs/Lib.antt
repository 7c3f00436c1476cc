pub mod Fits
pub mod Fives
pub mod Lagrange
pub mod Middle
