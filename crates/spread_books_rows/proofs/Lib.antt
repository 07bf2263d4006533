pub mod places
pub mod RisingRows
