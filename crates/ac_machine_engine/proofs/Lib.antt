pub mod BindLaws
pub mod CallLaws
pub mod EachLaws
pub mod FieldLaws
pub mod GivingLaws
pub mod HeldLaws
pub mod KnownLaws
pub mod TakenLaws
