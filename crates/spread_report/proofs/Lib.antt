pub mod frames
pub mod messages
pub mod entries
