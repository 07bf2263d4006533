pub mod StillOwed
pub mod OneStep
pub mod SentAndOwed
pub mod SeveralSteps
pub mod PassedTogether
pub mod SameGate
