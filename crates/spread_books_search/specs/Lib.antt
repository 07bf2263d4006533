pub mod Listed
pub mod BookView
pub mod code
