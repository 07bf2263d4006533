pub mod code
pub mod Streams
