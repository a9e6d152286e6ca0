pub mod Rows
pub mod Either
pub mod Placed
