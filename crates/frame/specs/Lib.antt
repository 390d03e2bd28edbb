pub mod Checksum
pub mod Frames
pub mod Meaning
pub mod Scanning
pub mod Written
pub mod Texts
