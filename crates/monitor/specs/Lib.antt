pub mod Following
pub mod Texts
