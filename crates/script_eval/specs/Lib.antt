pub mod Rest
pub mod Machines
pub mod Weight
pub mod Runs
