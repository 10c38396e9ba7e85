pub mod StringLemmas
pub mod TableLemmas
pub mod Longest
pub mod FrontLemmas
pub mod PlaceLemmas
pub mod ReadingLemmas
pub mod Steps
pub mod OneReading
