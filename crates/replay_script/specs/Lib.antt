pub mod Script
pub mod Table
