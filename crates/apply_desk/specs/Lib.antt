pub mod Applied
pub mod Sending
pub mod code
