pub mod Ascending
pub mod ChangedAt
pub mod RowsByPlace
