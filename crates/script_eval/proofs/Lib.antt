pub mod RestLemmas
pub mod Ranks
pub mod Ends
pub mod Entering
pub mod FrameLists
pub mod Roots
pub mod HeapEnds
