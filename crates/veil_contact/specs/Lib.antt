pub mod Veiled
