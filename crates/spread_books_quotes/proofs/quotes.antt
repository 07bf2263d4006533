pub mod Costs
pub mod QueueColumns
pub mod CostRows
pub mod Cells
pub mod Columns
pub mod Tables
pub mod PairCells
