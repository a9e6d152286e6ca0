mod Rows
mod Lines
pub mod Proved
