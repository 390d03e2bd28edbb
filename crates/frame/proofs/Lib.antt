pub mod Checksum
mod Examples
pub mod Frames
pub mod Scanning
pub mod Written
pub mod Texts
