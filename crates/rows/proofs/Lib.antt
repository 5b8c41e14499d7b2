pub mod laws
pub mod Rows
pub mod Discretising
