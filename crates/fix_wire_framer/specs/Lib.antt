pub mod code
pub mod Next
pub mod FramePlaces
pub mod Pieces
