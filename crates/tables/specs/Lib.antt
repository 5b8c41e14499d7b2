-- Lists that a rule makes (Tables), and a test of every place (Every).
pub mod Tables
pub mod laws
