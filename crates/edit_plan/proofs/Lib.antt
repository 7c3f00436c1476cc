pub mod WordLemmas
pub mod ListLemmas
pub mod CountLemmas
pub mod SoundLemmas
pub mod VersionLemmas
pub mod LineLemmas
pub mod CountedAhead
