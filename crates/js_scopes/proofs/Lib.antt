mod Bound
mod Distinct
mod Sound
mod Walks
mod FunctionLemmas
mod Sequences
pub mod NewScopes
