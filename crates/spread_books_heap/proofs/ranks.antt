pub mod TotalOrder
pub mod FrontOfAQueue
pub mod TablesThroughChanges
