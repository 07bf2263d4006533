pub mod Limits
pub mod code
pub mod Streams
