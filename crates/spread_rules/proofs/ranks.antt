pub mod FirstOfAFold
pub mod PlainIsLeast
pub mod LeastIsOne
pub mod PairsSwitched
pub mod BestIsLeast
