pub mod Parts
pub mod Offsets
