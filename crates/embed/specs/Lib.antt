pub mod Handles
pub mod Made
pub mod Numbers
