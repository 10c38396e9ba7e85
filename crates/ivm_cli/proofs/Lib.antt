pub mod Completeness
pub mod HostLaws
