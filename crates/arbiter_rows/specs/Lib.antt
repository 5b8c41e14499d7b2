-- The table of refusals of an Arbiter site, row by row.
pub mod Conditions
pub mod Rows
