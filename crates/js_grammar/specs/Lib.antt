pub mod Spots
pub mod Expressions
pub mod Statements
pub mod Literals
pub mod Derives
pub mod Exactly
pub mod FirstBad
