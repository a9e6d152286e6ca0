pub mod Owner
pub mod Across
pub mod At
