-- The table of refusals, row by row.
pub mod Exactly
pub mod Outsiders
pub mod Conditions
pub mod Discretising
pub mod laws
pub mod Rows
