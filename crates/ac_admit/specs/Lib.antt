pub mod Refusing
pub mod inner
