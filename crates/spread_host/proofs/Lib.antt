pub mod DayOfParts
pub mod SixteenTexts
pub mod AnswersSent
pub mod FillsShown
pub mod LawfulJournals
pub mod SessionsWithoutEntries
