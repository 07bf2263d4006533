pub mod fronts
