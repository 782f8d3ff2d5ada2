pub mod WalkLaws
pub mod FormLaws
pub mod VisitLaws
pub mod SlotLaws
pub mod TypeLaws
