pub mod Literals
pub mod NumberedLines
pub mod Places
