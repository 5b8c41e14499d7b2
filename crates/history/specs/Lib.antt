-- What has happened (History), and every sequence of steps (Sequences), for any kind of site; what was held, later (Holding).
pub mod History
pub mod Sequences
pub mod laws
