pub mod Deeds
pub mod Replays
pub mod Replies
pub mod Ends
pub mod Told
pub mod Limits
pub mod Only
pub mod Scripts
