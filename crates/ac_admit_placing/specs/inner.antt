pub mod Behind
pub mod Keys
pub mod Links
pub mod Maps
pub mod Open
pub mod State
