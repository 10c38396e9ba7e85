pub mod Comments
pub mod Escapes
pub mod Numerals
pub mod FirstFault
