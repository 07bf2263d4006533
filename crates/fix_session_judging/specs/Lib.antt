pub mod code
pub mod View
pub mod Places
pub mod Steps
pub mod Streams
pub mod Reading
pub mod Ahead
