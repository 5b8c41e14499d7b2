-- What is shown of the definitions. Nothing here has to be believed.
pub mod Naming
pub mod Pairs
