-- The edges marked P, and those of §6 and of §9 of 02.
pub mod Edges
pub mod Paired
pub mod Second
