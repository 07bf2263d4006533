pub mod Instruments
pub mod Prices
pub mod Rulebook
pub mod RulebookText
pub mod RulebookTextBeforePairs
pub mod code
