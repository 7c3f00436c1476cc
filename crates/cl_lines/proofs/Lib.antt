pub mod CommentLemmas
pub mod FewLemmas
pub mod JoinLemmas
pub mod NumberLemmas
pub mod PowerLemmas
