pub mod LineText
pub mod code
pub mod DayLines
pub mod JournalParts
pub mod Reading
