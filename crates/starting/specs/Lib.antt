-- A Start of a run: the verdict of 16 that the loop keeps (Judging), and what a Start leaves (Begun).
pub mod laws
