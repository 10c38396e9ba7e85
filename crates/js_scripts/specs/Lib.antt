pub mod Unbuilt
pub mod Text
pub mod Lowest
pub mod Says
