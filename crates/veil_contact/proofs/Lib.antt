pub mod Keys
pub mod Flagged
pub mod Around
pub mod Items
pub mod Keyed
pub mod Chained
pub mod Paired
pub mod Whole
