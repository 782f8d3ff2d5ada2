pub mod Fronts
pub mod LinkFaults
pub mod inner
