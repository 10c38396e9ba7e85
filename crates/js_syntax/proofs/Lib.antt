pub mod SoundLemmas
pub mod OrderLemmas
pub mod NameLemmas
pub mod TreeLemmas
pub mod NotedLemmas
pub mod StepLemmas
pub mod WorkedLemmas
