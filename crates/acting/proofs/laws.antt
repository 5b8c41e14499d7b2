-- Laws that the definitions are held to by edits of them. Nothing here has to be believed.
pub mod Moving
pub mod Relay
pub mod Running
pub mod Shares
pub mod Soundness
pub mod Stores
