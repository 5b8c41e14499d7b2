-- What is shown of the definitions. Nothing here has to be believed.
pub mod Judging
pub mod Begun
