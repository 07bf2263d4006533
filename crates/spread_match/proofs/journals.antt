pub mod AfterEveryEntry
pub mod FillsFitTheirOrders
pub mod InRange
