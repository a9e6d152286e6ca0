pub mod Fields
mod Inside
pub mod Owned
pub mod Thin
