pub mod PairQuote
