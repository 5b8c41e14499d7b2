-- What each event makes of a node (Events), what it leaves (EventLaws), what a report leaves and shares (ReportLaws), and that each
-- leaves what 16 asks (Soundness).
pub mod Events
pub mod laws
