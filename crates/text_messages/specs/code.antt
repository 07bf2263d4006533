-- Words of the code alone: no public promise needs them to be read.
pub mod LineStart
pub mod Blocks
pub mod Messages
