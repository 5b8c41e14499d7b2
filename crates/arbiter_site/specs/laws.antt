-- What is shown of the definitions. Nothing here has to be believed.
pub mod Parts
pub mod StepLaws
pub mod Accepted
