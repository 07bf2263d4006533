pub mod EntryByEntry
pub mod HandedOn
pub mod OneByOne
pub mod SomeSession
