pub mod texts
pub mod framing
pub mod fields
