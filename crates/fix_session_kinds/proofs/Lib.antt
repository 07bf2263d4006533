pub mod KindOfBytes
pub mod OneOfBytes
pub mod TableInRange
