-- The breaker and its changes (Breaker), what an accepted command leaves of them (CommandLaws), and that it leaves them as 16 asks (Soundness).
pub mod Breaker
pub mod laws
