pub mod Ends
pub mod Blocks
