pub mod laws
pub mod Promised
pub mod Listing
