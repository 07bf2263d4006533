pub mod Digits
pub mod Values
pub mod code
