pub mod FormLaws
pub mod MadeLaws
pub mod WalkLaws
