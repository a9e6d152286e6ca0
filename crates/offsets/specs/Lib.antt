pub mod Offset
