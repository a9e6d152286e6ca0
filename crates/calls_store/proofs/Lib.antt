pub mod Among
pub mod Still
