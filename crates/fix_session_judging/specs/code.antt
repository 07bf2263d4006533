pub mod Changes
pub mod Openings
pub mod Judged
pub mod Places
pub mod Streams
pub mod View
