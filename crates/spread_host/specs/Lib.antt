pub mod Days
pub mod Headline
pub mod Checks
pub mod LiveDays
pub mod Claims
