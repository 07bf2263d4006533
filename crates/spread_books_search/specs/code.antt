pub mod Best
pub mod Cheapest
