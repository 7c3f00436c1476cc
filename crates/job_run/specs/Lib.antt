pub mod Jobs
pub mod Strips
pub mod Left
pub mod Founds
pub mod Asked
pub mod Ready
pub mod Finished
pub mod Remaining
