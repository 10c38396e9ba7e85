pub mod Tally
pub mod Ledger
pub mod Calls
pub mod Asked
pub mod Kept
pub mod Next
pub mod Replied
pub mod Last
