-- Every step (Steps), and what its refusal decides (StepLaws).
pub mod Steps
pub mod laws
