pub mod Gaps
pub mod Spellings
pub mod Tokens
