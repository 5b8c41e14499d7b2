-- The site: what it is and its range (Site), and what a step answers (Answers).
pub mod Site
pub mod Answers
pub mod laws
