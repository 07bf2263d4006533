pub mod Rows
pub mod Owed
pub mod Gateways
pub mod Bursts
pub mod Fresh
pub mod Inboxes
