mod Parts
mod Operators
mod Expressions
mod Statements
mod Literals
mod Formed
