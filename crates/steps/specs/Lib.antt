-- What a step is, and what it names.
pub mod Named
pub mod laws
