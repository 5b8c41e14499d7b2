pub mod laws
pub mod Rows
