pub mod Encoding
pub mod Coded
