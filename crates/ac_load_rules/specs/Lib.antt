pub mod Causes
pub mod Accepting
pub mod Ready
pub mod Counted
