pub mod Begun
pub mod Heard
pub mod Payloads
pub mod Refusals
pub mod Requests
pub mod Texts
