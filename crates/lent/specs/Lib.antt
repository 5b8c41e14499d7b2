-- The lent table.
pub mod Lent
pub mod laws
