pub mod code
pub mod Ids
pub mod IdKeys
pub mod Cut
