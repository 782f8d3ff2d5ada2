pub mod BuiltLaws
pub mod ChainLaws
pub mod ReadLaws
pub mod ValueLaws
