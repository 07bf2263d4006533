pub mod Steps
pub mod Sessions
pub mod Rows
pub mod Faults
pub mod code
