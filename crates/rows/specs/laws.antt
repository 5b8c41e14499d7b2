-- What is shown of the definitions. Nothing here has to be believed.
pub mod Exactly
pub mod Outsiders
pub mod Telling
pub mod Answered
