pub mod Kinds
pub mod Loading
pub mod inner
