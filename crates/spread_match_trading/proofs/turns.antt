pub mod StaysAfterAFill
pub mod NotAgainstItself
pub mod OneTurn
pub mod StaysTradable
pub mod FillsOfATurn
