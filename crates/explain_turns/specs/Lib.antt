pub mod Explained
pub mod code
