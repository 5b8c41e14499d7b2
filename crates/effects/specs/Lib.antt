-- What each step does (Effects), what an accepted command does (CommandLaws), and that the site is left as 16 asks (Soundness).
pub mod Effects
pub mod laws
