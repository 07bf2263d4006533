pub mod FoundStands
pub mod NewOrder
pub mod OrderOfAnId
