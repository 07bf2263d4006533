pub mod Handing
pub mod Sequencing
pub mod Workers
pub mod Turning
pub mod Streams
