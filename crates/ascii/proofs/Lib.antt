pub mod Never
pub mod Decimals
pub mod Blobs
pub mod Pairs
pub mod ReadBack
pub mod Parts
pub mod Words
mod LastDigits
mod Fields
