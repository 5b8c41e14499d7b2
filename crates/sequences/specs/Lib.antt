-- Every sequence of steps: what has happened in it (History), what a site and its nodes are by that (Told), what is promised (Demand), and the proofs.
pub mod History
pub mod Told
pub mod Moments
pub mod Demand
pub mod State
pub mod Calls
pub mod laws
