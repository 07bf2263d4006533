pub mod Prices
pub mod Walks
