pub mod FrontCosts
pub mod QuoteTable
pub mod PairsOn
