-- Calls (Calls), and what a call does and prints (Runs).
pub mod Calls
pub mod Runs
pub mod laws
