pub mod TableLaws
pub mod CaseLaws
pub mod ConstantExamples
pub mod ContextLaws
pub mod OpLaws
