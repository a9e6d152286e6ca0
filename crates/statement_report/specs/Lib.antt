pub mod Report
pub mod Proved
