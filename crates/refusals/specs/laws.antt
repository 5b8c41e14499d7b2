-- What is shown of the definitions. Nothing here has to be believed.
pub mod Bools
pub mod Tests
pub mod Settled
