pub mod EntryForms
pub mod Joins
pub mod Lists
pub mod PatternForms
pub mod Puts
pub mod TypeForms
pub mod ValueForms
