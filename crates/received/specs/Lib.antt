pub mod Change
pub mod Lent
pub mod Cases
pub mod Proved
