pub mod Offset
pub mod Runs
pub mod Optional
