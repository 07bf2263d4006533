pub mod Index
pub mod FrontPrices
