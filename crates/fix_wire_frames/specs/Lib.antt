pub mod code
pub mod Texts
pub mod Fields
pub mod Frames
pub mod Messages
pub mod Held
pub mod Examples
