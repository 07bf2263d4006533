pub mod fronts
pub mod ranks
