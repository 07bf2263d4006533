pub mod events
pub mod JudgedAhead
