pub mod framing
