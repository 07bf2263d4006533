pub mod ExecutionReports
pub mod code
