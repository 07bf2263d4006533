pub mod Changes
pub mod FoldGivesFront
pub mod Slots
