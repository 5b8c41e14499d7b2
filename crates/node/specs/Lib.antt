-- A node: its state (State), what is asked of it (Asked), laws of its phase (PhaseLaws), and what 16 asks of it (Soundness).
pub mod State
pub mod Asked
pub mod laws
