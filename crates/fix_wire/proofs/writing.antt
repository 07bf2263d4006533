pub mod HeadFields
pub mod PartsInRoom
pub mod SpelledRow
pub mod WrittenMessage
