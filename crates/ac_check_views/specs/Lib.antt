pub mod Sites
pub mod inner
