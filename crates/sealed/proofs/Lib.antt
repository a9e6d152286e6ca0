pub mod Buckets
pub mod Text
pub mod Made
