pub mod turns
