pub mod ConeLemmas
pub mod FewLemmas
pub mod FieldLemmas
pub mod PositionLemmas
pub mod SizeLemmas
pub mod ValueLemmas
pub mod WordLemmas
