pub mod Sheet
pub mod Machine
pub mod Proved
