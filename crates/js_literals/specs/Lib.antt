pub mod Copies
pub mod Told
pub mod View
pub mod One
