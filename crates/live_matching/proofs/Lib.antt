pub mod Posters
pub mod OneEntryMore
pub mod RingEnds
