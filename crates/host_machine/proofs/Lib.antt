pub mod TallyLemmas
pub mod LedgerLemmas
pub mod CallsLemmas
pub mod NextLemmas
