pub mod Messages
pub mod code
