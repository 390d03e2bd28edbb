pub mod Logs
pub mod Seen
pub mod Wrote
