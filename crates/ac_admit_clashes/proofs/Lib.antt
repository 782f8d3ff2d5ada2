pub mod ClashLaws
pub mod KnownLaws
