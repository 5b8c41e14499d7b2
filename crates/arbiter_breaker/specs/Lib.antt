-- What an accepted message makes of the breaker (Arbitrating), and what is shown of it (ArbitratingLaws).
pub mod Arbitrating
pub mod laws
