-- What is shown of the definitions. Nothing here has to be believed.
pub mod State
pub mod PhaseLaws
pub mod Soundness
