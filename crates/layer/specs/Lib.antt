pub mod Settings
pub mod Stores
pub mod SettingsLemmas
pub mod Texts
