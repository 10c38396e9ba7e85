pub mod Values
pub mod Outcomes
pub mod Report
pub mod Tables
