pub mod Bindings
pub mod Lookup
pub mod Names
pub mod Scopes
pub mod Clashes
pub mod Lists
pub mod Scripts
pub mod Steps
