pub mod Settled
pub mod Known
pub mod Courses
pub mod Driving
pub mod Finished
pub mod Stays
pub mod Targets
