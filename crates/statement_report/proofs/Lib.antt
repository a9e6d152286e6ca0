mod Texts
mod Fed
pub mod Proved
