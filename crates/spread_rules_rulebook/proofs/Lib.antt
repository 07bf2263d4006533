pub mod rulebook_texts
pub mod lists
