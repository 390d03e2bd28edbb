pub mod Answers
pub mod Back
pub mod Meaning
pub mod Messages
pub mod Pairs
pub mod Splits
pub mod Texts
