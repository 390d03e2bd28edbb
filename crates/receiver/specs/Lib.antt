pub mod First
pub mod Handled
pub mod Named
pub mod Plans
pub mod Small
pub mod Stores
pub mod State
pub mod Written
