pub mod Named
pub mod Judged
pub mod Lined
pub mod Answering
pub mod Summed
pub mod True
pub mod Remaining
