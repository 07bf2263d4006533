pub mod IdKept
pub mod IdKeyOnce
pub mod Cuts
pub mod Numbers
pub mod MappedInPlace
