pub mod Lines
mod Rows
pub mod Text
mod Samples
