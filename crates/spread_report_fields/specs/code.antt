pub mod ReportBodies
pub mod Codes
pub mod Fields
