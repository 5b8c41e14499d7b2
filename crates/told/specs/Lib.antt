-- What an accepted step tells a node, field by field: r, b, the relay's number, what is resent, and what the node sends.
pub mod Telling
pub mod laws
