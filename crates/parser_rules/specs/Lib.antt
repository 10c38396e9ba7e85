pub mod Classes
pub mod Work
pub mod Rules
pub mod Expressions
pub mod Statements
pub mod Literals
pub mod Grammar
