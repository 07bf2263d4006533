pub mod RisingRows
pub mod Places
pub mod code
