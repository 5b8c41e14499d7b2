-- What a reader gives.
pub mod Reading
pub mod laws
