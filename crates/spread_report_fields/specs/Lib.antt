pub mod Codes
pub mod Fields
pub mod code
