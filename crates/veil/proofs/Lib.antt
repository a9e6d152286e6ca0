pub mod Copied
pub mod Text
pub mod Device
pub mod Queued
pub mod Courier
pub mod ByKind
