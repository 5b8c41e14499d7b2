-- The site of the Arbiter Protocol (Site), its table of refusals (Tests), what each step does (Effects), and every step (Steps).
pub mod Site
pub mod Tests
pub mod Effects
pub mod Steps
pub mod laws
