pub mod Cutters
