pub mod IdNotUsed
pub mod MayRest
pub mod NamedInstrument
pub mod OrderAdded
pub mod ReplacedStates
pub mod Replaces
