pub mod Restored
pub mod Index
