pub mod Turns
pub mod Cells
pub mod Fields
pub mod Distinct
pub mod Chains
pub mod Callers
mod Keys
mod Behind
