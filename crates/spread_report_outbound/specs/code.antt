-- Words of the code alone: no public promise needs them to be read.
pub mod Addressed
pub mod OutboundFields
pub mod PerSession
pub mod Sending
pub mod TakingBack
pub mod Sessions
pub mod Steps
