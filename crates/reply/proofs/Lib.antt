pub mod Back
pub mod Fronts
pub mod Hearing
pub mod Sayings
pub mod Walks
