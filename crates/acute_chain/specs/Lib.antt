pub mod Chaining
pub mod Given
pub mod inner
