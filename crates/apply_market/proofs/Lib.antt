pub mod EntryByEntry
