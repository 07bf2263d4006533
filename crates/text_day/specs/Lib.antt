pub mod Months
pub mod DayText
pub mod code
pub mod Differences
