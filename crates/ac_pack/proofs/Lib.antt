pub mod RootLaws
pub mod PackLaws
pub mod EntryCodes
pub mod Landings
