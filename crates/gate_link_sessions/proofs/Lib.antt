pub mod gateways
pub mod inboxes
pub mod PartOfASession
