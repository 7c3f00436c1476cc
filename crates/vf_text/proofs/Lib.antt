pub mod BlankLemmas
pub mod DigitLemmas
pub mod LineLemmas
pub mod PowerLemmas
