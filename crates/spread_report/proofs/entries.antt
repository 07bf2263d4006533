pub mod TakenBack
pub mod OneEntryMore
pub mod EntrySent
pub mod EntryLent
