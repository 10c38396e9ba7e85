pub mod Growing
pub mod DoneLemmas
pub mod LifeLemmas
pub mod CellLemmas
