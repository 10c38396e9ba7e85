pub mod ArrayLemmas
pub mod Fitting
pub mod KeyLemmas
pub mod Sound
