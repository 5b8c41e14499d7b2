-- A turn of a run (Turns), a block of turns (Blocks), what the code comes to (RunLaws, RunLoop), why a turn does what it does (WhyTurn), that
-- a block stops only where it has to (Enough), and that its text fits the buffer (Fitting).
pub mod Turns
pub mod Blocks
pub mod laws
