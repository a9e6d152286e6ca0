pub mod Text
pub mod Numbers
mod Samples
