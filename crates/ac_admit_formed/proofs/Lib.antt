pub mod BoundLaws
pub mod FormedLaws
pub mod NameLaws
pub mod TypeLaws
