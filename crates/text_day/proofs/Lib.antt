pub mod MonthLines
pub mod FirstLines
pub mod JournalLines
pub mod PartsInTurn
