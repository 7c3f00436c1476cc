pub mod AxisLemmas
pub mod BackLemmas
pub mod FoldLemmas
pub mod PassedLemmas
pub mod ProductLemmas
pub mod MadeLemmas
