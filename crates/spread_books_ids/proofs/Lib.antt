pub mod Keys
pub mod Lines
pub mod TakenBack
pub mod Tables
