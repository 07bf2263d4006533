pub mod State
pub mod Trade
pub mod code
