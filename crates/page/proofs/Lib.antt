pub mod Drafted
pub mod Named
pub mod Pairs
pub mod Walks
