pub mod FormLaws
pub mod NameLaws
pub mod PassLaws
pub mod WalkLaws
