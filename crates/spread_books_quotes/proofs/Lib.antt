pub mod quotes
