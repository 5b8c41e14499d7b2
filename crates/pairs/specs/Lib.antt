-- Statuses with their stamps.
pub mod Pair
pub mod Shares
pub mod laws
