pub mod Consistent
pub mod Check
pub mod Contact
