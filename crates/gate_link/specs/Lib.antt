pub mod Links
pub mod Turns
pub mod Slices
pub mod Opening
pub mod Schedules
pub mod Counts
