-- What is shown of the definitions. Nothing here has to be believed.
pub mod Decimal
pub mod LineLaws
pub mod Lengths
