mod Letters
mod Plain
mod Fields
mod Pairs
mod Lines
mod Within
mod Sheets
mod Kept
mod Fits
mod Later
pub mod Proved
mod Samples
