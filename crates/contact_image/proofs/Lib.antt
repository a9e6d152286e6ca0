pub mod Bytes
pub mod Counts
pub mod Fits
pub mod Image
pub mod Lengths
pub mod Stores
