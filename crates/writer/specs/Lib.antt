-- What a writer gives, and which bytes it leaves.
pub mod Writing
pub mod laws
