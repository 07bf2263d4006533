pub mod Tradable
pub mod code
