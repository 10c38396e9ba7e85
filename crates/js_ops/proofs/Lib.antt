pub mod SameLemmas
pub mod Samples
