pub mod BoughtIsSold
pub mod SumsOverLegs
pub mod TurnsEnd
pub mod ClearIsTurns
pub mod StaysQuiet
pub mod WorkedExamples
