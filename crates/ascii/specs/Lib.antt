pub mod Decimal
pub mod Hex
pub mod Words
pub mod Says
