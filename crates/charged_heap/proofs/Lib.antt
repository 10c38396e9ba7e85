pub mod BindingLemmas
pub mod Charges
pub mod ClosedLaws
pub mod GrowthLaws
mod PlaceLemmas
mod Replaced
