-- What a step is, and what it names.
pub mod Steps
