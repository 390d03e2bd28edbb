pub mod Stores
pub mod Walking
pub mod Says
