pub mod Words
pub mod Faults
pub mod Inspecting
pub mod Meaning
pub mod Writing
pub mod JournalLemmas
pub mod Texts
