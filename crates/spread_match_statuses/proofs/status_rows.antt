pub mod ByClOrdId
pub mod MarkedRows
pub mod MarksOfEntries
