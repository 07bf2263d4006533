pub mod SessionParts
