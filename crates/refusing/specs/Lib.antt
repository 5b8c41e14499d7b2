-- The table of refusals (Tests), its parts (Parts), and what the tests of an accepted step (Accepted) and command (CommandLaws) say.
pub mod Tests
pub mod laws
