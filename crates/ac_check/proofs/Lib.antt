pub mod Strict
pub mod CapturedLaws
pub mod CodeTerms
pub mod ValueForms
pub mod HoldLaws
pub mod EndLaws
