pub mod FrontFrame
pub mod RowOfFrames
pub mod HeldPart
pub mod OneTurn
pub mod FrameFromAPlace
