-- What is shown of the definitions. Nothing here has to be believed.
pub mod InTurn
pub mod LentLaws
