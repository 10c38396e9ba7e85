pub mod SettlementLemmas
pub mod EntryLemmas
