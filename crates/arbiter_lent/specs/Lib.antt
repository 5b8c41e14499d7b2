-- The lent table of an Arbiter site.
pub mod Lent
pub mod laws
