pub mod ranks
pub mod turns_told
