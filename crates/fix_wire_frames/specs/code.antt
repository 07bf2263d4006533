pub mod Scans
pub mod Tabled
pub mod Marked
pub mod Fields
pub mod Frames
pub mod Messages
pub mod Texts
