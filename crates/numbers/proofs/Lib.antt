pub mod Canon
pub mod Runs
pub mod Insert
pub mod Sets
pub mod Sizes
pub mod Uncovered
pub mod Decimal
