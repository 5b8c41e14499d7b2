-- What the program moves (Moving), that its run has a history (Histories), and what the promises in several parts settle (Settled).
pub mod Moving
pub mod Histories
pub mod Settled
pub mod laws
