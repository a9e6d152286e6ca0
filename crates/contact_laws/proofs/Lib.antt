pub mod Back
pub mod RoundTrip
