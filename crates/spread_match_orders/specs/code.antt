pub mod Entering
pub mod Refusals
