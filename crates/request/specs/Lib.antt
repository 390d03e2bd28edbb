pub mod Actions
pub mod Changes
pub mod Head
pub mod Keys
pub mod Reading
