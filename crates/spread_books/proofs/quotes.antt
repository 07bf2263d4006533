pub mod Implied
pub mod AtHand
