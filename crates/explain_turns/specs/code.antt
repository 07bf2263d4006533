pub mod Search
pub mod Turns
