pub mod PartCauses
pub mod inner
