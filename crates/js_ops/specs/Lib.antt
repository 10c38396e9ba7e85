pub mod Numbers
pub mod Values
pub mod Operators
pub mod Errors
pub mod Outcome
