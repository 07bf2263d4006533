pub mod places
pub mod fronts
