pub mod Courier
