-- What is shown of the definitions. Nothing here has to be believed.
pub mod Drafts
pub mod WriteLaws
pub mod Outside
