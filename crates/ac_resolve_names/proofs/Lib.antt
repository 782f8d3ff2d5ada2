pub mod FrontLaws
pub mod OuterLaws
pub mod Places
pub mod Scoping
pub mod TermForms
pub mod TypeForms
pub mod TypeLists
pub mod VariableForms
