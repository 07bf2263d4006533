pub mod LawfulJournal
pub mod PostPairs
pub mod CollectedBytes
pub mod JoinedParts
