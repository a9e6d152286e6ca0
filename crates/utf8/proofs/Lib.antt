pub mod Table
pub mod Utf8
