-- What is shown of the definitions. Nothing here has to be believed.
pub mod Rounding
pub mod InNumbers
pub mod Fresh
pub mod Larger
pub mod Neighbours
pub mod Newer
