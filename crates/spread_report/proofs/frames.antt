pub mod BodyLengths
pub mod ReadBack
