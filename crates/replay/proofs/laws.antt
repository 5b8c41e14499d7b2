-- Laws that the definitions are held to by edits of them. Nothing here has to be believed.
pub mod Cutting
pub mod Ending
pub mod Taken
pub mod Told
