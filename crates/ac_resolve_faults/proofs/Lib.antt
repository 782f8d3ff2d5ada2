pub mod DefsAre
pub mod ExprsAre
pub mod Forms
pub mod PatternsAre
pub mod Scoping
pub mod SurfacesAre
