pub mod Call
pub mod Ledger
pub mod Orders
pub mod Chains
