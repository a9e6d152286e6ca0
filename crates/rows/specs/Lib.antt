pub mod Utf8
pub mod Scalars
pub mod Values
pub mod Checks
pub mod Rows
pub mod Answers
pub mod Meets
pub mod Proved
