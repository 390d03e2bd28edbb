pub mod Building
pub mod Heard
pub mod Reading
pub mod Naming
