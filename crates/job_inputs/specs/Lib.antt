pub mod Asked
pub mod Inputs
pub mod Reads
pub mod Ready
pub mod Stocks
pub mod Tasks
