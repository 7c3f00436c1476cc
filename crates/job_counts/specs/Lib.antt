pub mod Counts
pub mod Holder
pub mod Totals
