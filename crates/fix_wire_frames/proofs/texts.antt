pub mod HeaderAtTheFront
pub mod WordAtTheFront
pub mod MarkedPlaces
pub mod TagIndexes
