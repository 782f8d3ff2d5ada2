pub mod Alone
pub mod Going
pub mod Together
