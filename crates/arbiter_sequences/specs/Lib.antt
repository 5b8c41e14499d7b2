-- What has happened at an Arbiter site (History), every sequence of its steps (Moments), what holds over them (Demand), and what a caller's own call adds to one
-- (Calls).
pub mod History
pub mod Moments
pub mod Demand
pub mod Calls
pub mod laws
