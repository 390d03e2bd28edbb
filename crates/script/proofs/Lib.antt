pub mod Numbers
pub mod Words
pub mod Hosts
pub mod Lines
