pub mod PatLaws
pub mod ExprLaws
pub mod Readers
pub mod Passed
pub mod PatSteps
