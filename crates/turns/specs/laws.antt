-- What is shown of the definitions. Nothing here has to be believed.
pub mod RunLaws
pub mod RunLoop
pub mod WhyTurn
pub mod Fitting
