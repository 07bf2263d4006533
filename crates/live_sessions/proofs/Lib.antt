pub mod FullJournal
pub mod JoinedWorkers
pub mod SentAndOwed
pub mod SequencedJournal
pub mod StartedWorkers
pub mod GivenOn
