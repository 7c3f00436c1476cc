pub mod Axes
pub mod Fold
pub mod Moves
pub mod Program
