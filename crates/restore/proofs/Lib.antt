pub mod Rounds
pub mod Owner
pub mod Ends
