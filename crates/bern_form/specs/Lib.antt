pub mod Forms
pub mod Grids
pub mod Roots
pub mod Slab
pub mod Cells
pub mod Between
pub mod Marks
pub mod Sizes
