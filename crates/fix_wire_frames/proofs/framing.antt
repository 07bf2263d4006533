pub mod IntactFrame
pub mod FrontStays
pub mod HeaderDigits
pub mod FramesHeld
pub mod FrameStarts
pub mod FrameBody
pub mod ShortLength
