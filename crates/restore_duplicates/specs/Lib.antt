pub mod Above
pub mod Keys
pub mod Parts
