pub mod ElementByElement
pub mod Joined
