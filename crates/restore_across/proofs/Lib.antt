pub mod Read
pub mod Halves
pub mod Chunks
pub mod Steps
pub mod ByKind
pub mod Laws
pub mod Depositor
