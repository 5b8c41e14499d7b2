-- What is shown of the definitions. Nothing here has to be believed.
pub mod CombiningLaws
pub mod OwnLaws
pub mod Soundness
