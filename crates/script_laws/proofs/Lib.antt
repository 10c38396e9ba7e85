pub mod Changes
pub mod StoreFunctions
pub mod FormTrees
pub mod FunctionWalk
