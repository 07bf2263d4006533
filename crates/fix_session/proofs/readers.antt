pub mod FirstMessage
pub mod BytesFed
