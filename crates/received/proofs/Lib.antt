pub mod Pairs
pub mod Turns
pub mod Stored
pub mod Changes
pub mod Cases
pub mod Proved
