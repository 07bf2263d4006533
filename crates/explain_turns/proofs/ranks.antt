pub mod NextIsLeast
pub mod PassedOver
pub mod Rows
pub mod LeastOfAll
pub mod SmallPrices
