pub mod Fills
pub mod code
pub mod Totals
