pub mod Joined
pub mod KnownScopes
pub mod TypeFlaws
pub mod NameFlaws
pub mod SigFlaws
pub mod EntriesInFront
pub mod Reads
pub mod inner
