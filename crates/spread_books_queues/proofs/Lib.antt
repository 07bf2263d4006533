pub mod ranks
