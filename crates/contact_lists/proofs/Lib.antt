pub mod Ends
mod Optional
pub mod Plain
