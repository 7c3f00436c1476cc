pub mod MarkBy
