pub mod FilledWhole
pub mod NothingReplaced
pub mod SameMeanings
