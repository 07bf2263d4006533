pub mod Faults
pub mod Feeding
pub mod Feeds
pub mod Marks
pub mod Pieces
pub mod Posting
