pub mod PairCost
pub mod BeatAnyPair
pub mod Levels
pub mod Suffice
pub mod MonthPairs
pub mod DirectFirst
