pub mod Found
pub mod Laws
pub mod Asked
pub mod WordOnes
pub mod WordLaws
