pub mod Tree
pub mod Forms
pub mod Declarations
pub mod Named
