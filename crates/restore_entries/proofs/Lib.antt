pub mod Looking
pub mod Storing
