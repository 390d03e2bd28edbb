pub mod Bench
pub mod Catalogues
pub mod Kinds
pub mod Owned
pub mod Texts
