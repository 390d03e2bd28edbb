pub mod Keys
pub mod Selectors
pub mod Values
pub mod Texts
