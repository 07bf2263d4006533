pub mod Making
pub mod Starting
pub mod Concluding
