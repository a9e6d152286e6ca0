pub mod Granted
pub mod Reordering
pub mod Orders
pub mod Chains
