pub mod TableHoldsFronts
