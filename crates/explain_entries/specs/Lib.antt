pub mod EntryExplained
