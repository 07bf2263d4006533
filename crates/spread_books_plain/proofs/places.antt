pub mod LastOrder
