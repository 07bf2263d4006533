pub mod Ids
pub mod Tables
pub mod Notes
pub mod code
