pub mod CauseLaws
pub mod TakenLaws
pub mod VerdictLaws
pub mod UnmarshalLaws
pub mod CutLaws
pub mod PieceLaws
pub mod TreeLaws
pub mod TypeLaws
pub mod OwnLaws
pub mod ScopeLaws
mod VerdictExamples
mod TypeExamples
