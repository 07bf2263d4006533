pub mod Steps
pub mod InRange
pub mod NumbersSpent
