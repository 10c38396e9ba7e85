pub mod Viable
pub mod FirstBad
