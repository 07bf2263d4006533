pub mod StateOfPlaces
pub mod OpeningInParts
pub mod OpensAtTwo
pub mod DueAfterOrders
pub mod InRangeAndOrder
pub mod ClosesOnce
