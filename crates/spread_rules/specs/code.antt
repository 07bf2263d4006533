pub mod Cases
pub mod Amended
pub mod Candidates
pub mod Clearing
pub mod Journal
pub mod Legs
pub mod Meaning
pub mod Quiet
