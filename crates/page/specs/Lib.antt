pub mod Drafts
pub mod Pages
pub mod Walks
pub mod Texts
