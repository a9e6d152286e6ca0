pub mod Keys
pub mod Above
pub mod Passes
pub mod Parts
