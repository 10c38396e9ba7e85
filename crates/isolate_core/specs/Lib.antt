pub mod Only
pub mod Written
pub mod Contents
pub mod Done
pub mod Life
pub mod Cell
