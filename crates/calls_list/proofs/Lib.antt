pub mod Typed
pub mod Turns
pub mod Samples
pub mod Two
