-- A run over a log: what the functions of its loop promise (Arms), and what each arm leaves (Taken). What a run is said to do stands in `turns`, and the
-- verdict of 16 that the loop keeps in `starting`.
pub mod laws
