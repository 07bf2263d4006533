pub mod RulebookFields
pub mod DraftFields
pub mod Rulebook
