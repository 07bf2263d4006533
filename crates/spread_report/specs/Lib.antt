pub mod EntryMessages
pub mod Outgoing
pub mod Messages
pub mod Ranges
pub mod Running
pub mod code
