pub mod Numbers
pub mod Fill
pub mod Offsets
pub mod Records
pub mod Sizes
pub mod Laws
