pub mod Laws
pub mod Takes
mod Samples
