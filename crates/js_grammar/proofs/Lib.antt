mod Same
mod Loops
mod Cycles
mod Nodes
mod Tests
mod Apart
mod Steps
mod Words
mod Kept
mod Lists
mod Functions
mod Operands
mod Tails
mod Levels
mod Literals
mod Covers
mod Arrows
mod WholeExpressions
mod Declarations
mod Statements
mod Compound
mod Choices
mod Deeper
mod Texts
mod Forms
pub mod Grammar
mod UpTo
pub mod FirstBad
