pub mod SpelledNumbers
pub mod LastTwoDigits
pub mod OneOrTwoDigits
pub mod PairsOfDigits
pub mod FiveDigits
pub mod FirstPlace
pub mod Hundredths
pub mod Appended
