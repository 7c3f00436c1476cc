pub mod CountedAhead
pub mod WordLemmas
pub mod RangeLemmas
pub mod FewLemmas
pub mod SpeltLemmas
pub mod BackLemmas
