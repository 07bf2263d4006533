pub mod FillsCounted
pub mod MarketStaysReady
pub mod PastStaysSound
pub mod NewEntriesStand
pub mod StatusesOfThePast
pub mod ThreeFillsAtMost
