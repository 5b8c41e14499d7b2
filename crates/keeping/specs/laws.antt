-- What is shown of the definitions. Nothing here has to be believed.
pub mod Keeping
pub mod Alike
pub mod Before
pub mod Turning
pub mod AsBefore
