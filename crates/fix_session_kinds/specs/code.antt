pub mod ByKind
pub mod Readers
