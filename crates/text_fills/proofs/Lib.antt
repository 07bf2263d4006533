pub mod MonthSums
