pub mod Posting
pub mod Matching
