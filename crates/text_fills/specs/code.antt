-- Words of the code alone: no public promise needs them to be read.
pub mod FillParts
pub mod Sums
pub mod Fills
