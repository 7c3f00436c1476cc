pub mod PieceLemmas
pub mod WholeLemmas
pub mod ReadLemmas
pub mod FindLemmas
pub mod FrontLemmas
pub mod HoldLemmas
pub mod ShelvedLemmas
pub mod ConsumedLemmas
