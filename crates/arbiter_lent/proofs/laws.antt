-- Laws that the definitions are held to by edits of them. Nothing here has to be believed.
pub mod TurnLaws
