pub mod Walk
pub mod Held
pub mod Again
pub mod Table
