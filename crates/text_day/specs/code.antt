-- Words of the code alone: no public promise needs them to be read.
pub mod LineParts
pub mod DayText
pub mod Months
