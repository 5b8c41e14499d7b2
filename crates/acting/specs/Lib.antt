-- An event at a node, to its end (Acting), what is shown of each event (ByEvent), and what holds of every event: what it leaves of r (Relay), what it
-- shares (Shares), whether the node runs then (Running), what b moves to (Moving), what the store holds (Stores), what a report leaves (Reports), and that the
-- record is left as 16 asks (Soundness).
pub mod Acting
pub mod laws
