pub mod AsBox
pub mod Copies
