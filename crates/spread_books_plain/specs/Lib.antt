pub mod Queues
pub mod Pairs
