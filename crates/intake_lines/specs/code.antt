pub mod OneByOne
pub mod LineSessions
pub mod PiecesRead
pub mod DayLines
pub mod LineText
pub mod Reading
