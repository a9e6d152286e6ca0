pub mod Ranges
pub mod Sets
pub mod Lists
pub mod Decimal
