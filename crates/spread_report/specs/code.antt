-- Words of the code alone: no public promise needs them to be read.
pub mod Addressed
pub mod Reports
pub mod PerSession
pub mod DeskFields
