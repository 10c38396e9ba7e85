pub mod PartLemmas
pub mod TreeLemmas
pub mod DeclarationLemmas
