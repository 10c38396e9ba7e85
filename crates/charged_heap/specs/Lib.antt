pub mod Price
pub mod Store
pub mod Bindings
pub mod Index
pub mod Room
pub mod Growth
pub mod Closed
pub mod Ends
