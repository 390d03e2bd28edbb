pub mod Checking
pub mod Meaning
pub mod Trying
pub mod Writes
