pub mod TextsOfABody
pub mod KindFirst
pub mod RowOfFields
pub mod TableOfFields
pub mod MarkedField
pub mod ShortTags
