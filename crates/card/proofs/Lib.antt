pub mod Image
pub mod Placed
pub mod RoundTrip
