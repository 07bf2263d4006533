pub mod Layout
pub mod Spelling
pub mod code
