pub mod Stand
pub mod Machine
pub mod Settlement
pub mod Lawful
pub mod Course
pub mod OneThread
