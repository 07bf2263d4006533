pub mod code
pub mod Table
