pub mod Leb
