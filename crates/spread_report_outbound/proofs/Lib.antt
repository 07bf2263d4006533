pub mod FrameRows
pub mod MoreMessages
pub mod OneMessage
pub mod PartiesSpelled
pub mod SessionsOf
pub mod Steps
pub mod TakenBack
