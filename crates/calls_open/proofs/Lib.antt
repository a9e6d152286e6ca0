pub mod Few
pub mod Made
