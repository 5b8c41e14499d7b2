-- What is shown of the definitions. Nothing here has to be believed.
pub mod Lengths
pub mod OfEvents
pub mod OfBreaker
pub mod Started
