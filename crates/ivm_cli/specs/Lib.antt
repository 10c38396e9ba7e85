pub mod Words
pub mod Status
pub mod Texts
pub mod HostRead
pub mod Run
