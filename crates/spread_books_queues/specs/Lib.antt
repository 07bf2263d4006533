pub mod FrontTable
pub mod QueueRanks
pub mod code
